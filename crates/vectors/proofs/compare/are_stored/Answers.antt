-- `compare::are_stored` meets its contract: the words are those of the chunks.
use native.Mathlib.Omega.{arith}
use Rattle.std.proofs.Common.{◌≡◌, ◌/◌, rules, tests, map, length, ap, sym, ◌∙◌}
use Rattle.std.specs.Simd.{first_chunks}
use Rattle.std.proofs.lemmas.Iterator.{same_from_all, YieldsList-from_zip, YieldsList-from_slice, YieldsList-from_map}
use Rattle.std.proofs.lemmas.List.{length-map}
use Rattle.vectors.specs.Stored.{short_at}
use Rattle.vectors.proofs.Rows.{shorts-chunks, tells-equal}
use Rattle.vectors.proofs.compare.are_stored.Goals as goal

pub returns : goal.returns
returns c =
    let ws = c.args.words.now in
    let bytes = c.args.stored.now in
    let cs = c.as_chunks.result.0.now in
    let n : length bytes / 2 ≡ length ws = omega (arith, c.requires) in
    let pairs = YieldsList-from_zip (YieldsList-from_slice ws (cc))
    (YieldsList-from_map _ (λ b. short_at b 0) (YieldsList-from_slice cs (cc)) (cc) (λ x r q k. search rules)) in
    let same = same_from_all c.all.new.self _ _ ws (map (λ b. short_at b 0) cs) c.all.ensures.ran pairs
    (sym (length-map cs _ ∙ c.as_chunks.ensures.front_len ∙ n)) (λ x q k. search (rules, tests)) (λ x q k. search (rules, tests)) in
    tells-equal
    (ap (map (λ b. short_at b 0)) (c.as_chunks.ensures.front ∙ ap (λ k. first_chunks 2 k bytes) n)
    ∙ shorts-chunks (length ws) bytes c.requires)
    (record { yes = same.0; no = same.1 })
