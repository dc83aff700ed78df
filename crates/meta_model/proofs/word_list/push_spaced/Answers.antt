use Rattle.meta_model.proofs.word_list.push_spaced.Goals as goal
