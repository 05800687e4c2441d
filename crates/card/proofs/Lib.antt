mod Names
mod Sheets
