mod Pieces
mod Tables
mod Numbers
