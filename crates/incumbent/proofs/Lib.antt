mod Ends
mod Steps
mod Views
mod Watches
