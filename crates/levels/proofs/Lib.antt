pub mod LevelSteps
pub mod LevelRuns
