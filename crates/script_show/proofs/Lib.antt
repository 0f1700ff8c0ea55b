mod Skips
