mod SpanLaws
mod IndexLaws
mod ValidLaws
mod NarrowLaws
