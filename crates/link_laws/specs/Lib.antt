pub mod SeenBy
pub mod Links
pub mod WorkedLinks
pub mod CodeSurvivors
pub mod LastPages
