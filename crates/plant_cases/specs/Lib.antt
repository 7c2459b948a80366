pub mod PlantCases
