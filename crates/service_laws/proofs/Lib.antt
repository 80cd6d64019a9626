mod Declaring
mod Described
mod Members
mod Rules
mod Sessions
mod Told
mod Upgrading
mod Ways
