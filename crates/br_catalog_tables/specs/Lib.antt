pub mod TreePlaces
pub mod Tables
pub mod OldTables
pub mod SchemaShapes
pub mod KnownSchemas
pub mod OldSchemas
