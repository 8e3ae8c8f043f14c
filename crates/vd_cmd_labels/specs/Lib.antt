pub mod Outcomes
pub mod Sources
pub mod Inputs
pub mod Clear
pub mod Labelling
pub mod WhatWraps
