mod Fronts
mod Infos
mod Left
mod Looks
mod Outcomes
mod Scripts
