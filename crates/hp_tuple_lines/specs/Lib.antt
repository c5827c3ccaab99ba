pub mod TupleLines
