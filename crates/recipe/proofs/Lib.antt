mod Clashes
mod Labelling
mod Lining
mod Openings
mod Output
mod Settled
mod Whole
