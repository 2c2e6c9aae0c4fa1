mod OneTree
mod Worked
