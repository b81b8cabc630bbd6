mod Strips
mod Substitutions
mod Firsts
mod Rows
