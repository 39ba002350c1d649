pub mod StayingLaws
