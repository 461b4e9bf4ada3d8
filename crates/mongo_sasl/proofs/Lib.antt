pub mod OneReply
pub mod NotBuilt
pub mod Unsent
pub mod Handed
pub mod AtOnce
pub mod DrawnIds
pub mod LeftInBuffer
pub mod StopsBy
pub mod LastReply
pub mod LoginEvents
pub mod OneExchange
pub mod NoUser
pub mod PlainPlan
pub mod PlainSteps
pub mod X509Plan
pub mod X509Steps
pub mod OtherRows
pub mod Fits
pub mod Joining
pub mod PlainJoins
pub mod X509Joins
pub mod EndsByScript
pub mod CredentialAnswers
mod X509Rows
mod Foreign
pub mod SaslRead
mod SuccessRead
mod MechanismNames
mod Judged
mod Negotiated
mod StartBody
