mod Following
mod Marks
mod Meaning
