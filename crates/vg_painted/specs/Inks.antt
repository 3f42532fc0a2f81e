-- The inks: the bytes' values, and tags that say where a byte comes from.
use Rattle.std.specs.Prelude.{ℕ, List, [], ◌∷◌}
use Rattle.vg_cursor.specs.Blended.{mixed}
use Rattle.vg_painted.specs.Ink.{Ink}

-- The value of each byte.
abbrev pub numbers : Ink ℕ ℕ
numbers = record {
  blank = 0;
  opaque = 255;
  stored = λ entry client page byte. byte;
  fetched = λ entry byte. byte;
  shown = λ entry byte. byte;
  plain = λ byte. byte;
  blended = λ screen image a. mixed image a screen;
  solid = 255;
}

-- Where a byte comes from. Zero: it was cleared. Opaque: the A of a pixel whose format has none, or of a mixed one. From: the entry
-- that stored it, the page in which it did, and the entries that copied it last to pixels and to a screen or an image, 0 where none did.
pub data Tag : Type 0 where
  Zero : Tag
  Opaque : Tag
  From : ℕ → ℕ → ℕ → ℕ → Tag

-- A tag once its byte was copied by this entry: to pixels, and to a screen or an image.
abbrev pub fetched_by : ℕ → Tag → Tag
fetched_by entry (From store page fetch show) = From store page entry show
fetched_by entry Zero = Zero
fetched_by entry Opaque = Opaque

abbrev pub shown_by : ℕ → Tag → Tag
shown_by entry (From store page fetch show) = From store page fetch entry
shown_by entry Zero = Zero
shown_by entry Opaque = Opaque

-- The tag of each byte; a frame's byte has those of all that it was mixed of.
abbrev pub tags : Ink Tag (List Tag)
tags = record {
  blank = Zero;
  opaque = Opaque;
  stored = λ entry client page byte. From entry page 0 0;
  fetched = fetched_by;
  shown = shown_by;
  plain = λ tag. tag ∷ [];
  blended = λ screen image a. screen ∷ image ∷ a ∷ [];
  solid = Opaque ∷ [];
}

-- Two inks at once.
abbrev pub both : {X Z Y W : Type 0} → Ink X Z → Ink Y W → Ink (X × Y) (Z × W)
both one other = record {
  blank = (one.blank, other.blank);
  opaque = (one.opaque, other.opaque);
  stored = λ entry client page byte. (one.stored entry client page byte, other.stored entry client page byte);
  fetched = λ entry x. (one.fetched entry x.0, other.fetched entry x.1);
  shown = λ entry x. (one.shown entry x.0, other.shown entry x.1);
  plain = λ x. (one.plain x.0, other.plain x.1);
  blended = λ screen image a. (one.blended screen.0 image.0 a.0, other.blended screen.1 image.1 a.1);
  solid = (one.solid, other.solid);
}

-- Each byte's value and its tag.
abbrev pub tagged : Ink (ℕ × Tag) (ℕ × List Tag)
tagged = both numbers tags
