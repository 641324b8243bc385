mod ReadItems
mod ReadLists
mod ShortestBodies
