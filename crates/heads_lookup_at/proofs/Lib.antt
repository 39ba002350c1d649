pub mod SegmentLaws
