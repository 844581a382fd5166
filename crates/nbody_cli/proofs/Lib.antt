mod Rows
mod Serving
mod Turns
mod Stages
mod KeptProbes
