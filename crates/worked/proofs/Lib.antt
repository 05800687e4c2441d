mod Steps
mod Days
mod Years
