use Rattle.std.proofs.Common.{◌∙◌, ap, refl, map, sym}
use Rattle.vg_judge.proofs.FrameLemmas.{HeadsAreSaid, not_read, other_head, found_or_not}
use Rattle.vg_judge.proofs.frames.behind_frame.Goals as goal

pub returns-in_default : goal.returns-in_default
returns-in_default c =
    let laws : HeadsAreSaid = record {
      plain = c.frame_heads_and_their_words.ensures.plain;
      back = c.frame_heads_and_their_words.ensures.back;
      parts = c.plain_words_and_their_line.ensures.back;
      line = c.plain_words_and_their_line.ensures.line;
    } in
    not_read _ _ _ _ _ laws c.cut.ensures.before (ap (map (λ word. word.now)) c.as_slice.ensures.value ∙ c.in_ok-put_parts.ensures.ok) (sym c.frame_of.ensures ∙ c.in_default.is)

pub returns-then-not-is_head_of : goal.returns-then-not-is_head_of
returns-then-not-is_head_of c =
    let laws : HeadsAreSaid = record {
      plain = c.frame_heads_and_their_words.ensures.plain;
      back = c.frame_heads_and_their_words.ensures.back;
      parts = c.plain_words_and_their_line.ensures.back;
      line = c.plain_words_and_their_line.ensures.line;
    } in
    other_head _ _ _ _ _ _ laws c.cut.ensures.before (ap (map (λ word. word.now)) c.as_slice.ensures.value ∙ c.in_ok-put_parts.ensures.ok) (sym c.frame_of.ensures ∙ c.in-Some.is)
    (λ same. let no = c.if-not-is_head_of.ensures.1 same in cc)

pub returns : goal.returns
returns c =
    let laws : HeadsAreSaid = record {
      plain = c.frame_heads_and_their_words.ensures.plain;
      back = c.frame_heads_and_their_words.ensures.back;
      parts = c.plain_words_and_their_line.ensures.back;
      line = c.plain_words_and_their_line.ensures.line;
    } in
    found_or_not _ _ _ _ _ _ _ _ laws c.cut.ensures.before c.cut.ensures.after (ap (map (λ word. word.now)) c.as_slice.ensures.value ∙ c.in_ok-put_parts.ensures.ok)
    (sym c.frame_of.ensures ∙ c.in-Some.is) (c.if-not-is_head_of.ensures.0 refl) c.behind_pixels.ensures
