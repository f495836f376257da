mod Deciding
mod Worked
