pub mod Front
mod Anys
mod Cells
mod Forms
mod Making
mod Offers
mod Served
mod Named
mod Places
