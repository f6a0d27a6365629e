mod Ending
mod Pieces
mod Due
mod Compiled
