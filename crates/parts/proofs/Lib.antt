pub mod NodesOfParts
pub mod PartsOfTrees
pub mod TreesOfParts
