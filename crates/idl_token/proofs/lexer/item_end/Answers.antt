use Rattle.std.proofs.Common.{sym, ◌∙◌}
use Rattle.idl_token.proofs.Starts.{ends_word, ends_mark, ends_note, ends_arrow}
use Rattle.idl_token.proofs.lexer.item_end.Goals as goal

pub returns-then-begins_word-clause-item :
    goal.returns-then-begins_word-clause-item
returns-then-begins_word-clause-item c =
    ends_word _ _ c.requires (sym c.begins_word.ensures ∙ c.if-begins_word.true) _ c.word_end.ensures.end

pub returns-then-is_mark-clause-item : goal.returns-then-is_mark-clause-item
returns-then-is_mark-clause-item c =
    ends_mark _ _ c.requires (sym c.begins_word.ensures ∙ c.if-begins_word.false) (sym c.is_mark.ensures ∙ c.if-is_mark.true)

pub returns-then-byte-eq35-clause-item : goal.returns-then-byte-eq35-clause-item
returns-then-byte-eq35-clause-item c = ends_note _ _ c.requires c.if-byte-eq35.true _ c.note_end.ensures.end

pub returns-then-text-after-eq62-clause-item : goal.returns-then-text-after-eq62-clause-item
returns-then-text-after-eq62-clause-item c = ends_arrow _ _ c.if-after-text.true c.if-byte-eq45.true c.if-text-after-eq62.true
