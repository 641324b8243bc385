mod LeastForms
mod ShortestOperators
mod ShortestValues
mod TableRows
mod WrittenParts
