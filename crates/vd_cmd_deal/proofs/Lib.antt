pub mod Front
mod OneMore
mod Digests
mod CmdDealKeyedOneMore
mod ReadBack
mod WholeKeys
mod OfTheDraw
