mod Places
mod Taken
mod Keeping
mod Stopping
mod Refusing
