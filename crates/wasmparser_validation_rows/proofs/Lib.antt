mod FunctionTypes
mod LookUps
