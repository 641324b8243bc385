mod EncodingLists
mod FunctionFronts
mod LastRuns
mod LocalLists
mod ShorterRuns
mod Taken
mod TypeRuns
mod VectorCode
