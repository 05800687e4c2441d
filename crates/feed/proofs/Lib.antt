mod Blanks
mod Records
mod Layouts
