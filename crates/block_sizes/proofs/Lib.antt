mod Earliest
mod OverLaws
mod SizeLaws
