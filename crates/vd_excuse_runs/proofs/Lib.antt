mod Puts
mod Changes
