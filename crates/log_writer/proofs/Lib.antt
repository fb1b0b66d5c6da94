mod LogAgain
mod Logged
