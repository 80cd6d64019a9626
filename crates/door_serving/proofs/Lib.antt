mod Going
mod Attending
mod Registries
