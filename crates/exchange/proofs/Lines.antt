-- One line more of a listing. Assumes nothing.
use Rattle.std.proofs.Common.{ℕ, ◌+◌, ◌<◌, List, [], length, take, get_or, sym, ap, ◌∙◌}
use Rattle.std.specs.Fmt.{HasWritten}
use Rattle.std.specs.declared.fmt.Formatter.{Formatter}
use Rattle.std.specs.List.{flat_map}
use Rattle.std.proofs.Output.{has_written_append, has_written_of_eq}
use Rattle.std.proofs.lemmas.List.{take_more, flat_map_more}
use Rattle.exchange.specs.Texts.{rule_line}
use Rattle.exchange.specs.declared.rule.Rule.{Rule}

pub line_more : {W : Type 0} (took : W → List ℕ → W → Type 0) (f g h : Formatter W) (rules : List Rule) (i : ℕ) (d : Rule) → i < length rules → HasWritten took f (flat_map rule_line (take i rules)) g → HasWritten took g (rule_line (get_or rules i d)) h → HasWritten took f (flat_map rule_line (take (i + 1) rules)) h
line_more took f g h rules i d within so_far line =
    has_written_of_eq _ _ _ _ _ (flat_map_more rule_line [] (take i rules) (get_or rules i d) ∙ ap (flat_map rule_line) (sym (take_more rules i d within))) (has_written_append _ _ _ _ _ _ so_far line)
