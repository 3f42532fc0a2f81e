mod FindLemmas
mod ShapeLaws
mod CommandLaws
