mod Lasts
mod Shallow
