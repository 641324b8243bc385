mod Depths
mod EarlierLaws
