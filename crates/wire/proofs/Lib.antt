pub mod ReadLaws
pub mod WriteLaws
pub mod RoundTrip
pub mod LentBack
pub mod DecodedLaws
pub mod ShownRoom
