mod Example
mod Made
