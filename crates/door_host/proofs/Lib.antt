mod Counting
mod Lists
mod Leaving
mod Sharing
mod Numbering
