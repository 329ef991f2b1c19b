mod Runs
mod Going
