mod Laid
mod Escaped
