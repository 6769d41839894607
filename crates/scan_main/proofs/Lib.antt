mod ScanAnswers
mod ScanRuns
mod ScanCases
mod ListRuns
mod EulerLines
mod EulerLemmas
