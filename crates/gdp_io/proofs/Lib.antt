mod Taken
mod Written
mod Filed
mod Opened
