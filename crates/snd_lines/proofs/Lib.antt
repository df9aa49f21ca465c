mod Listing
mod Parts
