use Rattle.std.proofs.Common.{◌≡◌, ℕ, false, arith, List, [], Some, None, inl, inr}
use Rattle.std.specs.Prelude.{codes}
use Rattle.std.proofs.lemmas.List.Elements.{All-nil}
use Rattle.std.proofs.lemmas.Option.{none-some}
use Rattle.tree_model.specs.declared.entry.Entry.TheVariants.{File}
use Rattle.meta_model.specs.CleanBuild.{Entries}
use Rattle.run_workers.specs.Nothing.{nothing_given}
use Rattle.store_model.specs.Hello.{hello_reading}
use Rattle.store_model.specs.Premises.{IsBlind, IsContent, IsTreeOf}
use Rattle.store_model.specs.Premises as of
use Rattle.store_model.proofs.Hello.{nothing_stands}
use Rattle.store_model.proofs.Lasting.{empty_is_valid}
use Rattle.run_model.specs.Headline.{nothing}
use Rattle.bitbake_top.proofs.Beginning.{chain_begins, hello_begins, hello_begins_again}
use Rattle.bitbake_top.proofs.Kept.{begins_first}
use Rattle.bitbake_top.specs.Worked.{no_plan}
use Rattle.bitbake_top.proofs.examples.example_of_beginning.Goals as goal

-- without lines and without tasks there is no tree
no_tree : (tree : Entries) → IsTreeOf nothing_given hello_reading [] [] tree → ⊥
no_tree tree (of.output before line t s o) = nothing_stands before line s
no_tree tree (of.files before line s) = nothing_stands before line s
no_tree tree (of.clean b t among o) = let lt = among.1 in omega (arith, lt)
no_tree tree (of.inputs task among) = let lt = among.1 in omega (arith, lt)

no_content : (bytes : List ℕ) → IsContent nothing_given hello_reading nothing [] [] bytes → ⊥
no_content bytes (inr held) = none-some held.1 held.2
no_content bytes (inl given) = no_tree given.0 given.1

pub returns-clause-empty : goal.returns-clause-empty
returns-clause-empty c = begins_first nothing_given hello_reading no_plan (λ none. record {
  valid = (empty_is_valid nothing_given hello_reading).lines;
  sound = tt;
  blind = All-nil (IsBlind nothing_given hello_reading);
  no_clash = λ a b x y e. absurd (no_content a x);
  no_collision = none;
})

pub returns-clause-stray : goal.returns-clause-stray
returns-clause-stray c may = let n : Some (File false []) ≡ None = may.valid.records (codes "x") in cc

pub returns-clause-hello : goal.returns-clause-hello
returns-clause-hello c = hello_begins

pub returns-clause-again : goal.returns-clause-again
returns-clause-again c = hello_begins_again

pub returns-clause-chain : goal.returns-clause-chain
returns-clause-chain c = chain_begins
