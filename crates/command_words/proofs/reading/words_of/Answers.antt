use Rattle.std.proofs.Common.{inl, inr}
use Rattle.command_words.proofs.Rows.{of_err}
use Rattle.command_words.proofs.reading.words_of.Goals as goal

pub returns-in_err-build_words-in-build-clause-lacks : goal.returns-in_err-build_words-in-build-clause-lacks
returns-in_err-build_words-in-build-clause-lacks c = of_err c.from_residual.result _ _ c.from_residual.ensures.1 (λ missing. inr (c.in-build.not-kernel, inl (c.in-build.is, c.in_err-build_words-in-build.ensures.lacks missing)))

pub returns-in_err-load_words-in-load-clause-lacks : goal.returns-in_err-load_words-in-load-clause-lacks
returns-in_err-load_words-in-load-clause-lacks c = of_err c.from_residual-in_err-load_words-in-load.result _ _ c.from_residual-in_err-load_words-in-load.ensures.1 (λ missing. inr (c.in-load.not-kernel, inr (c.in-load.not-build, inl (c.in-load.is, c.in_err-load_words-in-load.ensures.lacks missing))))

pub returns-in_err-screens-in-text-clause-lacks : goal.returns-in_err-screens-in-text-clause-lacks
returns-in_err-screens-in-text-clause-lacks c = of_err c.from_residual-in_err-screens-in-text.result _ _ c.from_residual-in_err-screens-in-text.ensures.1 (λ missing. inr (c.in-text.not-kernel, inr (c.in-text.not-build, inr (c.in-text.not-load, inr (c.in-text.not-upgrade, inl (c.in-text.is, c.in_err-screens-in-text.ensures.lacks missing))))))

pub returns-in_err-container_words-in-import-clause-lacks : goal.returns-in_err-container_words-in-import-clause-lacks
returns-in_err-container_words-in-import-clause-lacks c = of_err c.from_residual-in_err-container_words-in-import.result _ _ c.from_residual-in_err-container_words-in-import.ensures.1 (λ missing. inr (c.in-import.not-kernel, inr (c.in-import.not-build, inr (c.in-import.not-load, inr (c.in-import.not-upgrade, inr (c.in-import.not-text, inr (c.in-import.not-screens, inr (c.in-import.not-new, inl (c.in-import.is, c.in_err-container_words-in-import.ensures.lacks missing)))))))))

pub returns-in_err-container_words-in-export-clause-lacks : goal.returns-in_err-container_words-in-export-clause-lacks
returns-in_err-container_words-in-export-clause-lacks c = of_err c.from_residual-in_err-container_words-in-export.result _ _ c.from_residual-in_err-container_words-in-export.ensures.1 (λ missing. inr (c.in-export.not-kernel, inr (c.in-export.not-build, inr (c.in-export.not-load, inr (c.in-export.not-upgrade, inr (c.in-export.not-text, inr (c.in-export.not-screens, inr (c.in-export.not-new, inr (c.in-export.not-import, inl (c.in-export.is, c.in_err-container_words-in-export.ensures.lacks missing))))))))))

pub returns-in_err-survey_words-in-survey-clause-lacks : goal.returns-in_err-survey_words-in-survey-clause-lacks
returns-in_err-survey_words-in-survey-clause-lacks c = of_err c.from_residual-in_err-survey_words-in-survey.result _ _ c.from_residual-in_err-survey_words-in-survey.ensures.1 (λ missing. inr (c.in-survey.not-kernel, inr (c.in-survey.not-build, inr (c.in-survey.not-load, inr (c.in-survey.not-upgrade, inr (c.in-survey.not-text, inr (c.in-survey.not-screens, inr (c.in-survey.not-new, inr (c.in-survey.not-import, inr (c.in-survey.not-export, inr (c.in-survey.not-run, inr (c.in-survey.not-debug, inr (c.in-survey.not-see, inr (c.in-survey.not-view, inr (c.in-survey.not-serve, inl (c.in-survey.is, c.in_err-survey_words-in-survey.ensures.lacks missing))))))))))))))))

pub returns-in_err-judge_words-in-judge-clause-lacks : goal.returns-in_err-judge_words-in-judge-clause-lacks
returns-in_err-judge_words-in-judge-clause-lacks c = of_err c.from_residual-in_err-judge_words-in-judge.result _ _ c.from_residual-in_err-judge_words-in-judge.ensures.1 (λ missing. inr (c.in-judge.not-kernel, inr (c.in-judge.not-build, inr (c.in-judge.not-load, inr (c.in-judge.not-upgrade, inr (c.in-judge.not-text, inr (c.in-judge.not-screens, inr (c.in-judge.not-new, inr (c.in-judge.not-import, inr (c.in-judge.not-export, inr (c.in-judge.not-run, inr (c.in-judge.not-debug, inr (c.in-judge.not-see, inr (c.in-judge.not-view, inr (c.in-judge.not-serve, inr (c.in-judge.not-survey, inl (c.in-judge.is, c.in_err-judge_words-in-judge.ensures.lacks missing)))))))))))))))))

pub returns-in_err-unpack_words-in-unpack-clause-lacks : goal.returns-in_err-unpack_words-in-unpack-clause-lacks
returns-in_err-unpack_words-in-unpack-clause-lacks c = of_err c.from_residual-in_err-unpack_words-in-unpack.result _ _ c.from_residual-in_err-unpack_words-in-unpack.ensures.1 (λ missing. inr (c.in-unpack.not-kernel, inr (c.in-unpack.not-build, inr (c.in-unpack.not-load, inr (c.in-unpack.not-upgrade, inr (c.in-unpack.not-text, inr (c.in-unpack.not-screens, inr (c.in-unpack.not-new, inr (c.in-unpack.not-import, inr (c.in-unpack.not-export, inr (c.in-unpack.not-run, inr (c.in-unpack.not-debug, inr (c.in-unpack.not-see, inr (c.in-unpack.not-view, inr (c.in-unpack.not-serve, inr (c.in-unpack.not-survey, inr (c.in-unpack.not-judge, inl (c.in-unpack.is, c.in_err-unpack_words-in-unpack.ensures.lacks missing))))))))))))))))))

pub returns-in_err-disk_words-in-pack-clause-lacks : goal.returns-in_err-disk_words-in-pack-clause-lacks
returns-in_err-disk_words-in-pack-clause-lacks c = of_err c.from_residual-in_err-disk_words-in-pack.result _ _ c.from_residual-in_err-disk_words-in-pack.ensures.1 (λ missing. inr (c.in-pack.not-kernel, inr (c.in-pack.not-build, inr (c.in-pack.not-load, inr (c.in-pack.not-upgrade, inr (c.in-pack.not-text, inr (c.in-pack.not-screens, inr (c.in-pack.not-new, inr (c.in-pack.not-import, inr (c.in-pack.not-export, inr (c.in-pack.not-run, inr (c.in-pack.not-debug, inr (c.in-pack.not-see, inr (c.in-pack.not-view, inr (c.in-pack.not-serve, inr (c.in-pack.not-survey, inr (c.in-pack.not-judge, inr (c.in-pack.not-unpack, inl (c.in-pack.is, c.in_err-disk_words-in-pack.ensures.lacks missing)))))))))))))))))))

pub returns-in_err-guess_words-in-guess-clause-lacks : goal.returns-in_err-guess_words-in-guess-clause-lacks
returns-in_err-guess_words-in-guess-clause-lacks c = of_err c.from_residual-in_err-guess_words-in-guess.result _ _ c.from_residual-in_err-guess_words-in-guess.ensures.1 (λ missing. inr (c.in-guess.not-kernel, inr (c.in-guess.not-build, inr (c.in-guess.not-load, inr (c.in-guess.not-upgrade, inr (c.in-guess.not-text, inr (c.in-guess.not-screens, inr (c.in-guess.not-new, inr (c.in-guess.not-import, inr (c.in-guess.not-export, inr (c.in-guess.not-run, inr (c.in-guess.not-debug, inr (c.in-guess.not-see, inr (c.in-guess.not-view, inr (c.in-guess.not-serve, inr (c.in-guess.not-survey, inr (c.in-guess.not-judge, inr (c.in-guess.not-unpack, inr (c.in-guess.not-pack, inl (c.in-guess.is, c.in_err-guess_words-in-guess.ensures.lacks missing))))))))))))))))))))
