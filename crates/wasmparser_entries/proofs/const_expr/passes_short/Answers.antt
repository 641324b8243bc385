use Rattle.std.proofs.Common.{◌≡◌, ◌≤◌, ◌<◌, ℕ, List, true, length, sym, subst, ◌∙◌}
use Rattle.std.specs.Prelude.{get_or}
use Rattle.wasmparser_entries.specs.ConstExprs.{takes_number}
use Rattle.wasmparser_entries.proofs.ShortLaws.{short_read}
use Rattle.wasmparser_entries.proofs.const_expr.passes_short.Goals as goal

pub returns-in-Ok : goal.returns-in-Ok
returns-in-Ok c =
    let same = c.remaining_buffer.ensures.bytes in
    let takes = sym c.takes_number.ensures ∙ c.if-not-takes_number.false in
    let exact = c.in-Ok.ensures.exact in (
      short_read c.args.reader.now.rest _ _ (subst (λ (l : List ℕ). 3 ≤ length l) same c.in-len3-up.len_at_least) (subst (λ (l : List ℕ). get_or l 2 0 ≡ 0x0b) same c.if-last-ne-END.false)
          (subst (λ (l : List ℕ). get_or l 1 0 < 128) same c.if-number-ge128.false) (subst (λ (l : List ℕ). takes_number (get_or l 0 0) ≡ true) same takes) exact.0,
      exact.1,
    )
