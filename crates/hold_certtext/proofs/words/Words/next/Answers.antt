use Rattle.std.proofs.Common.{List, ℕ, Bool, Some, sym, ap, ◌∙◌}
use Rattle.hold_certtext.specs.inner.Parsing.{word_in}
use Rattle.hold_certtext.specs.inner.Words.{left, words_of, words_left}
use Rattle.hold_certtext.specs.declared.words.Words.{Words}
use Rattle.hold_certtext.proofs.WordLemmas.{word_in-last, word_in-more}
use Rattle.hold_certtext.proofs.words.Words.next.Goals as goal
use Rattle.hold_certtext.proofs.words.Words.next.Goals.{then-is_empty, else-is_empty}

pub returns : goal.returns
returns c =
    let text = c.args.self.now.text.now in
    let word = c.split_at.result.0.now in
    let rest = c.split_at.result.1.now in
    let more = ap (λ m. word_in (words_left m text)) c.if-not-self.false in
    elim c.if-is_empty.branch [
      | then-is_empty w ↦
          more ∙ word_in-last text word rest c.word_len-len.result c.word_len-len.ensures.value c.split_at.ensures.front c.split_at.ensures.back (sym w.if-is_empty.ensures)
          ∙ ap (λ (ws : Words). Some (word, left ws)) (sym w.self-is)
      | else-is_empty w ↦
          more ∙ word_in-more text word rest c.word_len-len.result c.word_len-len.ensures.value c.split_at.ensures.front c.split_at.ensures.back (sym w.if-is_empty.ensures)
          ∙ ap (λ (b : List ℕ). Some (word, words_of b)) (sym w.split_at-else-is_empty.ensures.back)
          ∙ ap (λ (m : Bool). Some (word, words_left m w.split_at-else-is_empty.result.1.now)) (sym c.if-not-self.false)
          ∙ ap (λ (ws : Words). Some (word, left ws)) (sym w.self-is)
    ]
