mod Joined
mod ReadByRules
