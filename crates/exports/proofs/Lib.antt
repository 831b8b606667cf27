mod Fronts
mod Repeated
mod Handing
